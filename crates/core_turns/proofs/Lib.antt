mod FactsAre
mod FactsMet
mod CommandsAre
pub mod GoingOn
pub mod StillFacts
pub mod Looking
pub mod Due
mod Referred
pub mod Asking
