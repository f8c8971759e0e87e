pub mod Appended
pub mod CommandLemmas
pub mod ReadersLemmas
pub mod WordsLemmas
