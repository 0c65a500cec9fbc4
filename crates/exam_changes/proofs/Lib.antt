mod MoveLemmas
mod SearchLemmas
