-- The law of this room: a try, read from wherever the tries before it left off, brings what `brings` says and leaves begun what `leaves` says.
use Rattle.std.specs.Prelude.{◌<◌, ◌≡◌, true, List, [], ◌∷◌, length, take}
use Rattle.wire.specs.Frame.{Message, frame, sendable}
use Rattle.wire.specs.declared.Way.{Way}
use Rattle.reader.specs.Reading.{Place, outside, Event, nothing, broken_frame, heard, run}
use Rattle.tries.specs.Tries.{Arrival, arriving, Begun, clear, begun, leaves, brings}

-- what bytes bring, those that bring nothing left out
abbrev pub news : List Event → List Event
news [] = []
news (nothing ∷ es) = news es
news (broken_frame ∷ es) = broken_frame ∷ news es
news (heard m ∷ es) = heard m ∷ news es

-- PROTOCOL 9.2: where reading stands: outside, or behind those bytes of the frame
abbrev pub stands_at : Way → Begun → Place
stands_at k clear = outside
stands_at k (begun m count) = (run k outside (take count (frame k m))).place

-- what is begun is a frame that can be sent, from its 01h on, and not yet whole
abbrev pub Fits : Way → Begun → Type 0
Fits k clear = Unit {0}
Fits k (begun m count) = (sendable k m ≡ true) × (0 < count) × (count < length (frame k m))

pub record TryRead (k : Way) (b : Begun) (m : Message) (a : Arrival) : Type 0 where
  pub news_are : news (run k (stands_at k b) (arriving (frame k m) a)).events ≡ brings k b m a
  pub place_is : (run k (stands_at k b) (arriving (frame k m) a)).place ≡ stands_at k (leaves k b m a)
  pub fits : Fits k (leaves k b m a)
