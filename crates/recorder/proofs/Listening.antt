-- A session noted down: what it brings to buffers that hold something already.
use mathlib.Core.Path.{◌≡◌, refl, sym, ap, ◌∙◌}
use mathlib.Core.List.{List, [], ◌∷◌, ◌++◌, append_assoc}
use Prim.Native.Nat.{ℕ, ◌+◌, ◌-◌, min}
use lib.ListN.{length}
use lib.Seq.{sets}
use Rattle.wire.specs.Frame.{Message}
use Rattle.line.specs.Turns.{Session}
use Rattle.store.specs.Store.{Store}
use Rattle.machine.proofs.Parts.{behind}
use Rattle.tape.specs.Noting.{listed, listing}
use Rattle.tape.proofs.Appending.{joined, joined_size}
use Rattle.recorder.specs.Recording.{Told}

-- what a session brings to buffers that hold something already
abbrev pub onto : List ℕ → List ℕ → ℕ → ℕ → Session Store → Told
onto out orders given listed s =
    record {
      recorded = record { books = s.state.store.books; given = min (given + length s.gives) (length out); listed = min (listed + length (listing s.carried)) (length orders) };
      out = sets out given s.gives;
      orders = sets orders listed (listing s.carried);
    }

listing_append : (ms ns : List Message) → listing (ms ++ ns) ≡ listing ms ++ listing ns
listing_append [] ns = refl
listing_append (m ∷ ms) ns = ap (λ z. listed m ++ z) (listing_append ms ns) ∙ sym (append_assoc (listed m) (listing ms) (listing ns))

pub onto_behind : (out orders : List ℕ) (given listed : ℕ) (gives : List ℕ) (carried : List Message) (r : Session Store)
    → onto out orders given listed (behind gives carried r)
    ≡ onto (sets out given gives) (sets orders listed (listing carried)) (min (given + length gives) (length out)) (min (listed + length (listing carried)) (length orders)) r
onto_behind out orders given listed gives carried r =
    let ms = listing carried in
    let ns = listing r.carried in
    ap (λ z. record {
      recorded = record { books = r.state.store.books; given = min (given + length (gives ++ r.gives)) (length out); listed = min (listed + length z) (length orders) };
      out = sets out given (gives ++ r.gives);
      orders = sets orders listed z;
    }) (listing_append carried r.carried)
    ∙ ap (λ z. record {
      recorded = record { books = r.state.store.books; given = z; listed = min (listed + length (ms ++ ns)) (length orders) };
      out = sets out given (gives ++ r.gives);
      orders = sets orders listed (ms ++ ns);
    }) (sym (joined_size out gives r.gives given))
    ∙ ap (λ z. record {
      recorded = record { books = r.state.store.books; given = min (min (given + length gives) (length out) + length r.gives) (length (sets out given gives)); listed = z };
      out = sets out given (gives ++ r.gives);
      orders = sets orders listed (ms ++ ns);
    }) (sym (joined_size orders ms ns listed))
    ∙ ap (λ z. record {
      recorded = record { books = r.state.store.books; given = min (min (given + length gives) (length out) + length r.gives) (length (sets out given gives)); listed = min (min (listed + length ms) (length orders) + length ns) (length (sets orders listed ms)) };
      out = z;
      orders = sets orders listed (ms ++ ns);
    }) (sym (joined out gives r.gives given))
    ∙ ap (λ z. record {
      recorded = record { books = r.state.store.books; given = min (min (given + length gives) (length out) + length r.gives) (length (sets out given gives)); listed = min (min (listed + length ms) (length orders) + length ns) (length (sets orders listed ms)) };
      out = sets (sets out given gives) (min (given + length gives) (length out)) r.gives;
      orders = z;
    }) (sym (joined orders ms ns listed))
