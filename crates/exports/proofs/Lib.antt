pub mod Answered
pub mod MakeCalls
pub mod PartCalls
pub mod BoxCalls
