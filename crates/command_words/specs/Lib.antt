pub mod BigFiles
pub mod CommandLine
pub mod HelpTexts
pub mod Keywords
pub mod SessionWords
