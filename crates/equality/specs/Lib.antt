pub mod Equalities
pub mod Laws
