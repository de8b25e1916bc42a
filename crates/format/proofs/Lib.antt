-- Facts by computing that hold the definitions to the numbers of documents 01 and 02.
pub mod Sample
pub mod Examples
pub mod Edges
pub mod Requests
pub mod Calls
