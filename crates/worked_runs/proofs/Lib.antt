mod SmallReport
mod SmallWords
mod SmallRun
mod SmallLoad
mod SmallExport
