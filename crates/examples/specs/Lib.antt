pub mod ReportExamples
pub mod PastExamples
