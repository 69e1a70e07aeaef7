-- PROTOCOL chapter 3: the status bytes, handed on from their own crate.
pub use Rattle.status.specs.Status.{receipts, memories, status_of}
