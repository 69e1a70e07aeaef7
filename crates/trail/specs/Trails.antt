-- Offsets in a recording, and its bytes outside frames (PROTOCOL 1.7 to 1.9).
use Rattle.std.specs.Prelude.{ℕ, ◌+◌, min, Bool, cond, List, [], ◌∷◌, eqb}
use Rattle.wire.specs.declared.Way.TheVariants.{ToDevice}
use Rattle.reader.specs.Reading.{read, outside}
use Rattle.reader.specs.Fields.{place_of, reader_of, kept_in, heard_of}
use Rattle.reader.specs.declared.Heard.{Heard}
use Rattle.reader.specs.declared.Heard.TheVariants.{Nothing, Broken, Whole}
use Rattle.reader.specs.declared.Reader.{Reader}
use Rattle.trail.specs.declared.Trail.{Trail}

-- before the first byte
abbrev pub fresh_trail : Trail
fresh_trail = record { reader = reader_of outside; offset = 0; start = 0; skipped = 0 }

-- one more, up to the largest number
abbrev pub counted : ℕ → ℕ
counted n = min (n + 1) 0xFFFFFFFFFFFFFFFF

-- PROTOCOL 1.7, 1.9: a byte that brings nothing: outside a frame each but 01h is skipped; directly behind an 01h another one leaves the first
-- outside; every other byte is a frame's
abbrev pub skipped_by : Bool → ℕ → ℕ → ℕ → ℕ
skipped_by inside count skipped b =
    cond inside (cond (eqb count 0) (cond (eqb b 0x01) (counted skipped) skipped) skipped)
    (cond (eqb b 0x01) skipped (counted skipped))

-- behind a frame, whole or broken, none
abbrev pub skipped_behind : Heard → Reader → ℕ → ℕ → ℕ
skipped_behind Nothing before skipped b = skipped_by before.inside before.count skipped b
skipped_behind Broken before skipped b = 0
skipped_behind (Whole seq code count) before skipped b = 0

-- one byte further, with the bytes since 01h in the lent array
abbrev pub passed : Trail → List ℕ → ℕ → Trail
passed t array b =
    let step = read ToDevice (place_of t.reader array) b in
    record {
      reader = reader_of step.place;
      offset = counted t.offset;
      start = cond (eqb b 0x01) t.offset t.start;
      skipped = skipped_behind (heard_of step.event) t.reader t.skipped b;
    }

-- the trail behind some bytes, and the lent array
pub record Followed : Type 0 where
  pub trail : Trail
  pub array : List ℕ

abbrev pub followed : Trail → (array bytes : List ℕ) → Followed
followed t array [] = record { trail = t; array = array }
followed t array (b ∷ bs) = followed (passed t array b) (kept_in array (read ToDevice (place_of t.reader array) b).place) bs
