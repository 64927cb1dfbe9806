pub mod EntryRun
