-- The laws of the definitions of `format`.
-- Tools, bytes, stored cells.
pub mod Tools
pub mod Bytes
pub mod Numbers
pub mod Stored
-- What each kind writes down is what the paper says, and comes back.
pub mod Positions
pub mod Settings
pub mod Bounds
pub mod Pointers
pub mod Parts
pub mod Stretches
pub mod Entries
pub mod Levels
pub mod Accumulation
pub mod RunsBack
-- Files and pictures, and when a file is accepted.
pub mod Header
pub mod Limits
pub mod Files
pub mod Acceptance
-- The calls.
pub mod Calls
pub mod Coordinates
pub mod Before
pub mod RankRange
pub mod Shorter
pub mod Fits
pub mod Listing
-- Demand 3.
pub mod Demand3
pub mod Starts
-- For code: other ways to the same answer.
pub mod Check
pub mod Search
pub mod Descent
pub mod Ranks
pub mod Streams
pub mod Refusals
