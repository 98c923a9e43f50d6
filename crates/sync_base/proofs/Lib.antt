mod PlainPipeLemmas
mod StreamLawLemmas
mod StreamLemmas
mod WorkedFlags
mod WorkedPipes
mod WorkedStreams
