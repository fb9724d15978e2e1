-- What stream code does, and what a program means.
pub mod Levels
pub mod Instructions
pub mod Performing
pub mod Running
pub mod CannotPerform
pub mod Stopping
pub mod StreamRun
pub mod Evaluation
pub mod OpenCalls
pub mod Unfinished
pub mod Reductions
pub mod SourceRun
pub mod WorkWords
pub mod Meaning
pub mod SourceMeasures
