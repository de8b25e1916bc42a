-- What the calls take of the kind. Assumes nothing.
pub use Rattle.base_groups.proofs.Walk.{walks}
pub use Rattle.base_groups.proofs.Encoded.{codes}
