pub mod inner
pub mod Refusals
pub mod PayloadText
pub mod Samples
pub mod OneLine
pub mod Reading
pub mod ReportText
