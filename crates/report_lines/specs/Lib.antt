pub mod Parts
pub mod Numbers
pub mod Readings
pub mod ReportLines
pub mod Ends
pub mod GraphLines
