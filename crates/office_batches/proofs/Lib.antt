mod RecordLemmas
mod TurnLemmas
mod BatchLaws
