mod AnswerLemmas
mod GroupObjectLemmas
mod EntryLemmas
mod SearchLemmas
mod RunLemmas
mod TableLemmas
mod SpaceLemmas
mod PromiseLemmas
mod WaitLemmas
mod WorkedSpaces
mod WorkedTables
mod OtherLemmas
pub mod AskLemmas
mod CountLemmas
mod RequestLemmas
mod AboveLemmas
mod EndLemmas
mod PartnerLemmas
mod JoinLemmas
pub mod TwoLemmas
mod WorkedCalls
mod WorkedAsking
mod WorkedForks
mod WorkedMembers
