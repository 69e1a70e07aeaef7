-- At most once: what the statements speak of that ask for no whole try. A list of commands, each with any tries or none, and what of it is heard.
use Rattle.std.specs.Prelude.{◌+◌, Bool, true, false, not, cond, ◌&&◌, List, [], ◌∷◌, ◌++◌, eqb, length}
use Rattle.wire.specs.Frame.{Message, frame}
use Rattle.wire.specs.declared.Way.TheVariants.{ToDevice}
use Rattle.reader.specs.Reading.{Event, nothing, broken_frame, heard}
use Rattle.tries.specs.Tries.{Arrival, whole, replaced, cut, Begun, leaves, brings}
use Rattle.delivery.specs.Delivery.{is_whole, Sent, all, any, may_come, differ, differs_from, tries_leave}

-- PROTOCOL 9.1, of a whole list
abbrev pub all_may_come : List Sent → Bool
all_may_come [] = true
all_may_come (c ∷ cs) = may_come c && all_may_come cs

-- PROTOCOL 9.4, 9.5: the frames heard among what tries bring, told from the tries alone
abbrev pub messages : List Event → List Message
messages [] = []
messages (nothing ∷ es) = messages es
messages (broken_frame ∷ es) = messages es
messages (heard m ∷ es) = m ∷ messages es

abbrev pub tries_heard : Begun → Message → List Arrival → List Message
tries_heard b m [] = []
tries_heard b m (a ∷ rest) = messages (brings ToDevice b m a) ++ tries_heard (leaves ToDevice b m a) m rest

abbrev pub all_heard : Begun → List Sent → List Message
all_heard b [] = []
all_heard b (c ∷ cs) = tries_heard b c.command c.tries ++ all_heard (tries_leave b c.command c.tries) cs

-- PROTOCOL 1.10: a frame with the SEQ and CMD of the one directly before it is a repeat: these are left out
abbrev pub new_after : Message → List Message → List Message
new_after m [] = []
new_after m (n ∷ ns) = cond (differ m n) (n ∷ []) [] ++ new_after n ns

abbrev pub without_repeats : List Message → List Message
without_repeats [] = []
without_repeats (m ∷ ms) = m ∷ new_after m ms

-- PROTOCOL 9.5: a try that lacks only its last byte; the next one's first byte may become that byte
abbrev pub lacks_last : Message → Arrival → Bool
lacks_last m whole = false
lacks_last m (replaced at byte) = false
lacks_last m (cut count) = eqb (count + 1) (length (frame ToDevice m))

abbrev pub none_lacks_last : List Sent → Bool
none_lacks_last [] = true
none_lacks_last (c ∷ cs) = all (λ a. not (lacks_last c.command a)) c.tries && none_lacks_last cs

-- PROTOCOL 9.1: those commands of which a try arrived whole
abbrev pub arrived_whole : List Sent → List Sent
arrived_whole [] = []
arrived_whole (c ∷ cs) = cond (any is_whole c.tries) (c ∷ []) [] ++ arrived_whole cs

-- PROTOCOL 9.6: neighbours differ in SEQ or CMD
abbrev pub neighbours_differ : List Sent → Bool
neighbours_differ [] = true
neighbours_differ (c ∷ cs) = differs_from c.command cs && neighbours_differ cs
