pub mod ShapeText
pub mod Examples
