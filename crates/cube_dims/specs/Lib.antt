pub mod DimsFile
pub mod Words
pub mod MeasureParts
pub mod Examples
