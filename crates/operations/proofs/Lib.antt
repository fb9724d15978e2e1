-- Laws of the operations, for the functions of both runs.
pub mod Frames
pub mod Effects
pub mod StackLaws
pub mod StreamLaws
pub mod CallLaws
pub mod Fields
pub mod StepLaws
pub mod CheckedLaws
pub mod RunLaws
pub mod CheckedRun
