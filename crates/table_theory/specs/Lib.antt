pub mod Drawing
pub mod Laws
