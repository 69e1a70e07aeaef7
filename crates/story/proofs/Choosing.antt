-- What is told, by what a test chooses.
use Prim.Native.Nat.{ℕ}
use mathlib.Core.Path.{◌≡◌, sym, ap}
use mathlib.Core.Bool.{Bool, true, cond}
use mathlib.Core.List.{List, ◌++◌}
use Rattle.reader.specs.Fields.{place_of}
use Rattle.expecting.specs.Expecting.{expected_at}
use Rattle.trail.specs.declared.Trail.{Trail}
use Rattle.items.specs.Items.{cut_items}
use Rattle.items.specs.declared.Kind.TheVariants.{Cut}
use Rattle.pages.specs.Pages.{ended}
use Rattle.passages.specs.Passages.{skipped_text}
use Rattle.story.specs.Story.{part_text, ends_text}

-- the end of a recording in a frame
module _ (html : Bool) (trail : Trail) (shadow : List ℕ) where
  abbrev cut : List ℕ
  cut = part_text html Cut trail shadow (cut_items trail.reader.count (expected_at (place_of trail.reader shadow))) ++ ended html

  pub ends_cut : trail.reader.inside ≡ true → cut ≡ ends_text html trail shadow
  ends_cut e = sym (ap (λ b. cond b cut (skipped_text html trail.offset trail.skipped)) e)
