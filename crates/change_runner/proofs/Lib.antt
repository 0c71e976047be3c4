mod ChangeLemmas
mod DoingLemmas
mod LogLemmas
mod RunLemmas
