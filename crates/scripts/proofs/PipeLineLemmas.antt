-- What the lines of a pipe script ask for, word by word.
use Rattle.std.proofs.Common.{◌≡◌, ℕ, ◌<◌, ◌≤◌, List, [], ◌∷◌, ◌++◌, length, Bool, true, false, not}
use Rattle.std.proofs.Common.{cond, codes, is_some, Bor, Option, None, Some, Result, Ok, Err, refl}
use Rattle.std.proofs.Common.{ap, sym, subst, ◌∙◌, append_assoc, append-nil, arith}
use Rattle.std.specs.List.{list_all}
use Rattle.std.specs.Result.{result_ok}
use Rattle.std.proofs.lemmas.Slice.Eq.{bytes_eq-Decides}
use Rattle.std.proofs.lemmas.List.Sums.{list_all-from_AllPass}
use Rattle.std.proofs.lemmas.Bool.Decides.{nat_tests}
use Rattle.hex.specs.Hex.{decode_of, is_hex_digit}
use Rattle.hex.specs.declared.error.FromHexError.{FromHexError}
use Rattle.hex.proofs.HexLemmas.{decode_of-ok}
use Rattle.sync_base.specs.Pipe.{PipeState}
use Rattle.scripts.specs.declared.lines.TheConstants.{LINE_FEED, SPACE}
use Rattle.scripts.specs.declared.pipe_line.OpVerb.{OpVerb}
use Rattle.scripts.specs.declared.pipe_line.OpVerb.TheVariants as verb
use Rattle.scripts.specs.declared.script.TheConstants.{MAX_LINE}
use Rattle.scripts.specs.Lines.{is_space, is_word, lines_of, cut_line_of, words_of, words_of_rest}
use Rattle.scripts.specs.Lines.{number_of, number_within, BeginsWithLine, LineAsks, NoLineAsks}
use Rattle.scripts.specs.PipeScript.{Op, Writes, Hangs_up, answered, pipe_language, bytes_of, op_of}
use Rattle.scripts.specs.PipeScript.{mode_of, hangup_of, read_of, write_of}
use Rattle.scripts.specs.PipeLine.{op_word, op_end}
use Rattle.scripts.proofs.LineLemmas.{parts_of-some, parts_of-plain}
use Rattle.scripts.proofs.OnePassLemmas.{passes_too, line_begins, line_of_word}
use Rattle.scripts.proofs.OnePassLemmas.{none_of_words, none_on_line}
use Rattle.scripts.proofs.PartLemmas.{TailHas, parted}

-- `limit N stream` and a word more is not in the grammar
mode_of-more : (word : List ℕ) (words : List (List ℕ)) → 0 < length words
    → mode_of (word ∷ words) ≡ None
mode_of-more word [] some = absurd (omega arith)
mode_of-more word (next ∷ words) some = refl

-- a mode with a word after it is no mode
pub mode_of-long : (word : List ℕ) (rest : Option (Bor (List ℕ))) → is_some rest ≡ true
    → mode_of (word ∷ words_of_rest rest) ≡ None
mode_of-long word None some = cc
mode_of-long word (Some rest) some =
    mode_of-more word (words_of rest.now) (parts_of-some is_space rest.now)

-- the digits of bytes have no space between them
no_space_in_bytes : (word bytes : List ℕ) → bytes_of word ≡ Some bytes
    → list_all (λ b. not (is_space b)) word ≡ true
no_space_in_bytes [] bytes is = cc
no_space_in_bytes (d ∷ ds) bytes is =
    step (is_word (d ∷ ds) (codes "-")) refl (decode_of (d ∷ ds)) refl is
  where
    step : (v : Bool) → is_word (d ∷ ds) (codes "-") ≡ v → (r : Result (List ℕ) FromHexError)
        → decode_of (d ∷ ds) ≡ r → cond v (Some []) (result_ok r) ≡ Some bytes
        → list_all (λ b. not (is_space b)) (d ∷ ds) ≡ true
    step true dash r decoded is =
        subst (λ (w : List ℕ). list_all (λ b. not (is_space b)) w ≡ true)
        (sym ((bytes_eq-Decides (d ∷ ds) (codes "-")).0 dash)) refl
    step false dash (Ok decoded_bytes) decoded is =
        passes_too is_hex_digit (λ b. not (is_space b)) (λ b is. grind (arith, nat_tests))
        (d ∷ ds)
        (list_all-from_AllPass is_hex_digit (d ∷ ds)
        (decode_of-ok (d ∷ ds) decoded_bytes decoded).1)
    step false dash (Err e) decoded is = cc

-- a line of one word of bytes
pub bytes_line : (text word rest bytes : List ℕ) → lines_of text ≡ word ∷ lines_of rest
    → cut_line_of text ≡ cut_line_of rest → bytes_of word ≡ Some bytes
    → BeginsWithLine text (word ∷ []) rest
bytes_line text word rest bytes lines cut is =
    subst (λ (ws : List (List ℕ)). BeginsWithLine text ws rest)
    (parts_of-plain is_space word (no_space_in_bytes word bytes is))
    (line_begins text word rest lines cut)

-- a writer and bytes
pub writes_of : (writer bytes word : List ℕ) (n : ℕ) → number_of writer ≡ Some n → n < 64
    → bytes_of word ≡ Some bytes → write_of (writer ∷ word ∷ []) ≡ Some (Writes n bytes)
writes_of writer bytes word n is small read =
    let within : number_within 0 63 writer ≡ Some n = grind (arith, nat_tests) in
    rw (within, read) refl

-- a dash is the bytes of a line that ends after it
pub dash_line : (text rest : List ℕ) → text ≡ codes "-" ++ LINE_FEED ∷ rest
    → BeginsWithLine text (codes "-" ∷ []) rest
dash_line text rest split =
    line_of_word text (codes "-") rest split (record { no_space = refl; no_line_feed = refl })

-- `hangup` alone
pub hangup_asks : (text rest : List ℕ) → text ≡ codes "hangup" ++ LINE_FEED ∷ rest
    → LineAsks op_of text Hangs_up rest
hangup_asks text rest split =
    record {
      words = codes "hangup" ∷ [];
      begins = line_of_word text (codes "hangup") rest split
          (record { no_space = refl; no_line_feed = refl });
      asks = refl;
    }

-- a text asks for an operation only where it begins with the word of one
pub no_verb_asks_none : (text : List ℕ)
    → ((verb : OpVerb) (rest : List ℕ) → ¬ (text ≡ op_word verb ++ op_end verb ∷ rest))
    → NoLineAsks op_of text
no_verb_asks_none text never words rest begins fits =
    let first = parted SPACE begins.line in
    ap op_of (sym (sym first.parts ∙ begins.words_are))
    ∙ by_tail first.word first.tail first.others first.beyond
    (begins.split ∙ ap (λ (l : List ℕ). l ++ LINE_FEED ∷ rest) first.split)
  where
    hangup_of-more : (others : List (List ℕ)) → 0 < length others → hangup_of others ≡ None
    hangup_of-more [] some = absurd (omega (arith, some))
    hangup_of-more (word ∷ others) some = refl

    by_word : (v : Bool) (word : List ℕ) (op : Option Op) (verb : List ℕ)
        → is_word word verb ≡ v → (word ≡ verb → op ≡ None) → (other : Option Op)
        → other ≡ None → cond v op other ≡ None
    by_word true word op verb is each other none = each ((bytes_eq-Decides word verb).0 is)
    by_word false word op verb is each other none = none

    after_space : (front tail : List ℕ) (verb : OpVerb) → op_end verb ≡ SPACE
        → text ≡ (front ++ SPACE ∷ tail) ++ LINE_FEED ∷ rest → front ≡ op_word verb → ⊥
    after_space front tail verb end split is =
        never verb (tail ++ LINE_FEED ∷ rest)
        (split ∙ (append_assoc front (SPACE ∷ tail) (LINE_FEED ∷ rest)
        ∙ (ap (λ (w : List ℕ). w ++ SPACE ∷ (tail ++ LINE_FEED ∷ rest)) is
        ∙ ap (λ b. op_word verb ++ b ∷ (tail ++ LINE_FEED ∷ rest)) (sym end))))

    by_tail : (front tail : List ℕ) (others : List (List ℕ)) → TailHas SPACE tail others
        → text ≡ (front ++ tail) ++ LINE_FEED ∷ rest → op_of (front ∷ others) ≡ None
    by_tail front [] [] beyond split =
        by_word (is_word front (codes "hangup")) front (hangup_of []) (codes "hangup") refl
        (λ is. absurd (never verb.Hangup rest
        (split ∙ ap (λ (w : List ℕ). w ++ LINE_FEED ∷ rest) (append-nil front ∙ is))))
        _ (by_word (is_word front (codes "read")) front (read_of []) (codes "read") refl
        (λ is. refl) _ (by_word (is_word front (codes "write")) front (write_of [])
        (codes "write") refl (λ is. refl) _ refl))
    by_tail front [] (word ∷ others) beyond split = absurd beyond
    by_tail front (b ∷ tail) others beyond split =
        let space = split ∙ ap (λ b. (front ++ b ∷ tail) ++ LINE_FEED ∷ rest) beyond.0 in
        by_word (is_word front (codes "hangup")) front (hangup_of others) (codes "hangup") refl
        (λ is. hangup_of-more others (rw beyond.1 (parts_of-some is_space tail)))
        _ (by_word (is_word front (codes "read")) front (read_of others) (codes "read") refl
        (λ is. absurd (after_space front tail verb.Read refl space is)) _
        (by_word (is_word front (codes "write")) front (write_of others) (codes "write") refl
        (λ is. absurd (after_space front tail verb.Write refl space is)) _ refl))

-- a line whose words ask for an operation is answered as that operation
pub op_answered : (s : PipeState) (line : List ℕ) (words : List (List ℕ)) (op : Op)
    → words_of line ≡ words → op_of words ≡ Some op
    → pipe_language.answer_to s line ≡ Some (answered s op)
op_answered s line words op is asks = rw (is, asks) refl

-- a read whose number is none is no read, nor is one with a word after it
pub read_of-wrong : (word : List ℕ) → number_of word ≡ None → read_of (word ∷ []) ≡ None
read_of-wrong word none = rw none refl

-- nor is a write whose writer is none
pub write_of-wrong : (word : List ℕ) (words : List (List ℕ)) → number_of word ≡ None
    → write_of (word ∷ words) ≡ None
write_of-wrong word [] none = refl
write_of-wrong word (bytes ∷ []) none = rw none refl
write_of-wrong word (bytes ∷ next ∷ words) none = refl

-- or has too large a number
pub write_of-high : (word : List ℕ) (words : List (List ℕ)) (n : ℕ) → number_of word ≡ Some n
    → 64 ≤ n → write_of (word ∷ words) ≡ None
write_of-high word [] n is high = refl
write_of-high word (bytes ∷ []) n is high =
    let none : number_within 0 63 word ≡ None = grind (arith, nat_tests) in
    rw none refl
write_of-high word (bytes ∷ next ∷ words) n is high = refl

-- or whose bytes are none
write_of-no_bytes : (word bytes : List ℕ) (o : Option ℕ) → number_within 0 63 word ≡ o
    → bytes_of bytes ≡ None → write_of (word ∷ bytes ∷ []) ≡ None
write_of-no_bytes word bytes None is none = rw is refl
write_of-no_bytes word bytes (Some n) is none = rw (is, none) refl

-- a line that is no bytes, or is too long for some, asks for no write
pub no_bytes_asked : (writer text line rest : List ℕ) → lines_of text ≡ line ∷ lines_of rest
    → (length line ≤ MAX_LINE → bytes_of line ≡ None)
    → NoLineAsks (λ words. write_of (writer ∷ words)) text
no_bytes_asked writer text line rest is none =
    none_on_line (λ words. write_of (writer ∷ words)) text line rest is
    (λ fits. none_of_words (λ words. write_of (writer ∷ words)) line
    (write_of-no_bytes writer line (number_within 0 63 writer) refl (none fits))
    (λ word next words. refl))

-- and one that asks for none is not answered
pub op_not_answered : (s : PipeState) (line : List ℕ) → op_of (words_of line) ≡ None
    → pipe_language.answer_to s line ≡ None
op_not_answered s line none = rw none refl
