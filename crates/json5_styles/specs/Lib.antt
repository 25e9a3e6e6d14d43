-- Lists the definitions of layouts and of JSON.
pub mod Styles
pub mod Json
pub mod JsonTexts
pub mod Layouts
pub mod Blanks
pub mod JsonEscapes
pub mod LaidBack
pub mod WholeTexts
pub mod Writable
pub mod Lines
pub mod LaidPuts
