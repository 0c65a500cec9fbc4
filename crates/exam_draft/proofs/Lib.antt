pub mod EditLemmas
