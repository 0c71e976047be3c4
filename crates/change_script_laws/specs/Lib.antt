pub mod EventForms
pub mod FileTexts
