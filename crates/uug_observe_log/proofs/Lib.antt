pub mod CountLemmas
mod LoggedFacts
pub mod StandardFacts
