pub mod Numbers
pub mod Lists
pub mod Words
pub mod CommandLemmas
pub mod ProveLemmas
