-- Laws of the first half of a call, a branch of the code each.
use Rattle.std.specs.Prelude.{Option}
use mathlib.Core.Path.{◌≡◌, sym, ap, ◌∙◌}
use mathlib.Core.Bool.{Bool, true, false, cond}
use mathlib.Core.List.{List, ◌++◌, append-nil}
use Prim.Native.Nat.{ℕ, ◌+◌, ◌-◌, ◌<◌, min}
use native.Mathlib.Decide.{dec_lt}
use native.Mathlib.Omega.{arith}
use lib.ListN.{length, take, drop, length-drop, drop_of_length-le}
use Rattle.display.specs.Display.{shown_by, display_of, displayed}
use Rattle.kinds.specs.Fields.{Parsed}
use Rattle.command.specs.Commands.{parsed_of}
use Rattle.sheet.specs.declared.Search.{Search}
use Rattle.books.specs.declared.Books.{Books}
use Rattle.line.specs.Listening.{listened_to, frame_behind}
use Rattle.line.specs.declared.Call.{Call}
use Rattle.line.specs.declared.Call.TheVariants.{Order}
use Rattle.line.specs.declared.Listened.{Listened}
use Rattle.guard.specs.Guard.{judged_by}
use Rattle.guard.specs.declared.Guard.{Guard}
use Rattle.guard.specs.declared.Judged.{Judged}
use Rattle.carrying.specs.Carrying.{search_in}
use Rattle.machine.specs.Beginning.{long_enough, asking, texts_by, asked_of, begun_by, begun_with, not_begun, FirstHalf, beginning}
use Rattle.machine.specs.declared.Asked.{Asked}
use Rattle.machine.specs.declared.Begun.{Begun}
use Rattle.machine.specs.declared.Device.{Device}
use Rattle.machine.proofs.Working.{take_min, take_all}

-- an order's data, read, what it looks for, what it shows, and what the guard says to it
module _ (b : Books) (g : Guard) (call : Call) (frame : List ℕ) (s c n k : ℕ) (ec : call ≡ Order s c n) (size : length frame ≡ 256) (ek : k ≡ min n 253) where
  abbrev content : List ℕ
  content = take (k + 3 - 3) (drop 3 frame)

  pub cut : content ≡ take n (drop 3 frame)
  cut =
      let e : k + 3 - 3 ≡ min n 253 = omega (arith, ek) in
      ap (λ i. take i (drop 3 frame)) e ∙ take_min n 253 (drop 3 frame) (omega (arith, length-drop 3 frame, size))

  texts : shown_by c content ≡ texts_by (Order s c n) frame
  texts = ap (shown_by c) cut ∙ sym (append-nil (shown_by c (take n (drop 3 frame))))

  pub asked_is : (p : Parsed) (q : Search) (x : Option ℕ) (j : Judged) → p ≡ parsed_of c content → q ≡ search_in b p → x ≡ display_of (shown_by c content) → j ≡ judged_by g p content
      → record { parsed = p; search = q; shows = x; guard = j.guard; passes = j.passes } ≡ asked_of b g call frame
  asked_is p q x j ep eq ex ej =
      ap (λ z. record { parsed = p; search = z; shows = x; guard = j.guard; passes = j.passes }) eq
      ∙ ap (asking b p x) ej
      ∙ ap (λ z. asking b z x (judged_by g z content)) ep
      ∙ ap (λ z. asking b (parsed_of c z) x (judged_by g (parsed_of c z) z)) cut
      ∙ ap (λ z. asking b (parsed_of c (take n (drop 3 frame))) z (judged_by g (parsed_of c (take n (drop 3 frame))) (take n (drop 3 frame)))) (ex ∙ ap display_of texts)
      ∙ sym (ap (λ z. asked_of b g z frame) ec)

  pub shown_is : (display display' : List ℕ) → display' ≡ displayed display (shown_by c content) → display' ≡ displayed display (texts_by call frame)
  shown_is display display' e = e ∙ ap (displayed display) texts ∙ sym (ap (λ z. displayed display (texts_by z frame)) ec)

-- what is heard
module _ (d : Device) (frame display : List ℕ) (room lines : ℕ) (bytes : List ℕ) where
  abbrev listened : Listened
  listened = listened_to d.line frame bytes

  abbrev first : Bool → FirstHalf
  first long = cond long (begun_with d.books d.guard listened (frame_behind d.line frame bytes) display) (record { begun = not_begun d; frame = frame; display = display })

  pub too_little : (g : Begun) → g ≡ not_begun d → long_enough room lines (length display) ≡ false
      → record { begun = g; frame = frame; display = display } ≡ beginning d frame display room lines bytes
  too_little g eg e = ap (λ (z : Begun). record { begun = z; frame = frame; display = display }) eg ∙ sym (ap first e)

  pub heard_first : (x : Listened) (frame' display' : List ℕ) (q : Asked) → long_enough room lines (length display) ≡ true → x ≡ listened → frame' ≡ frame_behind d.line frame bytes
      → q ≡ asked_of d.books d.guard x.call frame' → display' ≡ displayed display (texts_by x.call frame')
      → record { begun = begun_by d.books x q; frame = frame'; display = display' } ≡ beginning d frame display room lines bytes
  heard_first x frame' display' q e ex ef eq ed =
      ap (λ z. record { begun = begun_by d.books x z; frame = frame'; display = display' }) eq
      ∙ ap (λ z. record { begun = begun_by d.books x (asked_of d.books d.guard x.call frame'); frame = frame'; display = z }) ed
      ∙ ap (λ (z : Listened). begun_with d.books d.guard z frame' display) ex
      ∙ ap (λ z. begun_with d.books d.guard listened z display) ef
      ∙ sym (ap first e)

-- the bytes from a place on, all of them
pub rest_from : (from n : ℕ) (bytes : List ℕ) → n ≡ min from (length bytes) → take (length bytes - n) (drop n bytes) ≡ drop from bytes
rest_from from n bytes e =
    take_all (length bytes - n) (drop n bytes) (omega (arith, length-drop n bytes)) ∙ ap (λ i. drop i bytes) e ∙ drop_min from bytes
  where
    drop_min : (from : ℕ) (bytes : List ℕ) → drop (min from (length bytes)) bytes ≡ drop from bytes
    drop_min from bytes = go (dec_lt from (length bytes))
      where
        go : Dec (from < length bytes) → drop (min from (length bytes)) bytes ≡ drop from bytes
        go (yes h) = let same : min from (length bytes) ≡ from = omega arith in ap (λ i. drop i bytes) same
        go (no h) =
            let all : min from (length bytes) ≡ length bytes = omega arith in
            ap (λ i. drop i bytes) all ∙ drop_of_length-le bytes {i = length bytes} (omega arith) ∙ sym (drop_of_length-le bytes {i = from} (omega arith))
