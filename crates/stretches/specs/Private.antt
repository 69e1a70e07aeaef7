-- What the private functions ask of each other. No promise to a caller rests on it.
use Rattle.std.specs.Prelude.{ℕ, ◌+◌, ◌≤◌, ◌≡◌, true, List, [], ◌∷◌, ◌++◌, length, get_or, take, drop}
use Rattle.text.specs.Parts.{first_at}
use Rattle.wire.specs.Bytes.{may_stand}
use Rattle.wire.specs.Frame.{Message, command_of, bcc, frame, sendable}
use Rattle.wire.specs.declared.Way.TheVariants.{ToDevice}
use Rattle.wire.specs.declared.Role.TheVariants.{Name}

-- how many bytes stand before the first 01h
abbrev pub before_start : List ℕ → ℕ
before_start bytes = first_at 0x01 bytes

-- 01h, the LEN of n data bytes, SEQ and CMD stand at the front
pub record Heads (n : ℕ) (bytes : List ℕ) : Type 0 where
  pub small : n ≤ 200
  pub start : get_or bytes 0 0 ≡ 0x01
  pub len : get_or bytes 1 0 ≡ n + 0x24
  pub seq : may_stand Name (get_or bytes 2 0) ≡ true
  pub code : may_stand Name (get_or bytes 3 0) ≡ true

-- 05h, BCC and 03h
abbrev pub closing : ℕ → List ℕ
closing sum = 0x05 ∷ bcc sum ++ 0x03 ∷ []

-- the command that stands at the front with n data bytes
abbrev pub leading : ℕ → List ℕ → Message
leading n bytes = command_of (get_or bytes 2 0) (get_or bytes 3 0) (take n (drop 4 bytes))

-- it can be sent, and its whole frame stands there
pub record Leads (n : ℕ) (bytes : List ℕ) : Type 0 where
  pub small : n ≤ 200
  pub room : n + 10 ≤ length bytes
  pub can : sendable ToDevice (leading n bytes) ≡ true
  pub whole : take (n + 10) bytes ≡ frame ToDevice (leading n bytes)
