pub mod Codes
pub mod LeastRounds
pub mod Forms
pub mod Shapes
pub mod ShapeTexts
pub mod CodeLaws
pub mod ShapeLaws
