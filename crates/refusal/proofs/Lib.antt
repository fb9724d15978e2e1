-- Laws of the numbers of refusals, of refusals that go up, and of lent buffers that are filled.
pub mod Number
pub mod Raised
pub mod FilledBuffer
