-- What is told of a frame beside its bytes (EXPLAIN 2).
use Rattle.std.specs.Prelude.{ℕ, ◌+◌, Option, Some, None, option_map, cond, List, [], ◌∷◌, eqb}
use Rattle.line.specs.declared.Call.{Call}
use Rattle.line.specs.declared.Call.TheVariants.{Quiet, Nak, Again, Order}
use Rattle.expecting.specs.declared.Expected.{Expected}
use Rattle.expecting.specs.declared.Part.{Part}
use Rattle.expecting.specs.declared.Part.TheVariants as part
use Rattle.items.specs.declared.Kind.{Kind}
use Rattle.items.specs.declared.Kind.TheVariants.{Done, Refused, Broken, Repeat, Skipped}
use Rattle.items.specs.declared.Label.{Label}
use Rattle.items.specs.declared.Label.TheVariants.{Came, CameAnew, Place, Expected as InPlace, Part as Called}
use Rattle.items.specs.declared.Saying.{Saying}
use Rattle.items.specs.declared.Saying.TheVariants as saying
use Rattle.items.specs.declared.Value.{Value}
use Rattle.items.specs.declared.Value.TheVariants.{Number, Byte, Bytes, InData, Said}
use Rattle.items.specs.declared.Item.{Item}

abbrev pub labelled : Label → Value → Option Item
labelled label value = Some (record { label = label; value = value })

-- up to four lines
abbrev pub four : Option Item → Option Item → Option Item → Option Item → List (Option Item)
four a b c d = a ∷ b ∷ c ∷ d ∷ []

-- PROTOCOL 2.1: what became of it, by what the bytes asked for and the reply number
abbrev pub kind_of : Call → ℕ → Kind
kind_of Quiet number = Skipped
kind_of Nak number = Broken
kind_of Again number = Repeat
kind_of (Order seq code count) number = cond (eqb number 0) Done Refused

-- PROTOCOL 1.9: the byte that broke a frame; 01h begins the next one
abbrev pub came_item : ℕ → Option Item
came_item byte = cond (eqb byte 0x01) (labelled CameAnew (Byte byte)) (labelled Came (Byte byte))

-- PROTOCOL 1.2, 1.7: the bytes that suit a part, where any do
abbrev pub expected_value : Part → ℕ → ℕ → Option Value
expected_value part.Start least most = Some (Byte least)
expected_value part.Len least most = Some (Bytes least most)
expected_value part.Seq least most = Some (Bytes least most)
expected_value part.Cmd least most = Some (Bytes least most)
expected_value part.Data least most = Some InData
expected_value part.Five least most = Some (Byte least)
expected_value part.Bcc least most = Some (Byte least)
expected_value part.End least most = Some (Byte least)
expected_value part.Nothing least most = None

abbrev pub expected_item : Expected → Option Item
expected_item e = option_map (λ value. record { label = InPlace; value = value }) (expected_value e.part e.least e.most)

-- PROTOCOL 1.2: its name
abbrev pub part_saying : Part → Saying
part_saying part.Start = saying.Start
part_saying part.Len = saying.Len
part_saying part.Seq = saying.Seq
part_saying part.Cmd = saying.Cmd
part_saying part.Data = saying.Data
part_saying part.Five = saying.Five
part_saying part.Bcc = saying.Bcc
part_saying part.End = saying.End
part_saying part.Nothing = saying.Nothing

-- the place behind 01h, counted from 1; what may stand there; what that is called
abbrev pub place_items : Option Item → ℕ → Expected → List (Option Item)
place_items first count e = four first (labelled Place (Number (count + 1))) (expected_item e) (labelled Called (Said (part_saying e.part)))

-- PROTOCOL 1.8: a frame that broke; and one that the recording ends in
abbrev pub broken_items : ℕ → ℕ → Expected → List (Option Item)
broken_items count byte e = place_items (came_item byte) count e

abbrev pub cut_items : ℕ → Expected → List (Option Item)
cut_items count e = place_items None count e
