pub mod Args
pub mod ReportText
