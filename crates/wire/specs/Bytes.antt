-- PROTOCOL 1.2 and 1.4: which bytes may stand where.
use Rattle.std.specs.Prelude.{ℕ, Bool, ◌||◌, eqb}
pub use Rattle.text.specs.Parts.{every, within}
use Rattle.wire.specs.declared.Role.{Role}
use Rattle.wire.specs.declared.Role.TheVariants.{Name, Data, Status}

-- PROTOCOL 1.4: Tab, line feed, 10h, and 20h and above
abbrev pub may_stand_in_data : ℕ → Bool
may_stand_in_data b = eqb b 0x09 || eqb b 0x0A || eqb b 0x10 || within 0x20 0xFF b

-- PROTOCOL 1.2: what SEQ and CMD, a data byte and a status byte can be (the upper bound: DECISIONS 3)
abbrev pub may_stand : Role → ℕ → Bool
may_stand Name b = within 0x20 0xFF b
may_stand Data b = may_stand_in_data b
may_stand Status b = within 0x80 0xFF b
