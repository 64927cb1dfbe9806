pub mod FilterRun
