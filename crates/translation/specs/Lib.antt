-- The stream code of a program, and what its runs give.
pub mod Templates
pub mod Demand3
pub mod EveryRun
pub mod CodeLimits
pub mod TranslateAndRun
pub mod Listing
pub mod ListingText
pub mod ThisCall
pub mod EndedRuns
pub mod StoppedRuns
pub mod OutOfRange
