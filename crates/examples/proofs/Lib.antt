pub mod ReportExamples
