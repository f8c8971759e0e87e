pub mod PartsLemmas
pub mod Steps
pub mod Answering
pub mod Reports
pub mod LegalLogs
pub mod EachLine
pub mod Coming
