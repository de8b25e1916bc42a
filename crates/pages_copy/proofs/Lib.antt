pub mod Behind
pub mod OneRun
pub mod Apart
pub mod Copying
pub mod Page
pub mod Turn
