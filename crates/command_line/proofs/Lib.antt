mod CommandLemmas
mod WorkedWords
