-- Request 2026-04: "Each apprentice has a password." What holds of the guard in every history.
use mathlib.Core.Path.{◌≡◌, refl, sym, ap, ◌∙◌, subst}
use mathlib.Core.Bool.{Bool, true, false, cond, not, ◌&&◌, false≢true}
use mathlib.Core.List.{List, [], ◌∷◌, ◌++◌}
use Prim.Native.Nat.{ℕ}
use Rattle.wire.specs.Frame.{Message}
use Rattle.kinds.specs.declared.Command.TheVariants.{ChangePassword, ChangeName}
use Rattle.kinds.specs.Fields.{Parsed}
use Rattle.std.specs.Prelude.{Ok}
use Rattle.kinds.specs.declared.Password.{Password}
use Rattle.command.specs.Commands.{parsed_of}
use Rattle.sheet.specs.declared.Line.{Line}
use Rattle.kinds.specs.Operators.{is_op}
use Rattle.guard.specs.Guard.{is_locked, is_right, password_of, name_of, calmed, passes, judged_by}
use Rattle.guard.specs.declared.Guard.{Guard}
use Rattle.guard.specs.declared.Verdict.TheVariants.{Right, Wrong, Locked}
use Rattle.trials.specs.Changes.{Wide, Short, passes_by}
use Rattle.trials.specs.Tries.{Came, guard_behind, tries_from, ThreeWrong}
use Rattle.trials.proofs.Changing.{fresh_wide, judged_wide, calmed_wide, passes_as, a_password_changes_only_by_101}
use Rattle.trials.proofs.Locking.{locked_by_three_wrong, locked_only_by_three_wrong}
use Rattle.trials.proofs.Names.{fresh_short, judged_short, calmed_short, a_name_changes_only_by_102}
use Rattle.books.specs.declared.Books.{Books}
use Rattle.books.specs.declared.Shown.TheVariants.{Nothing}
use Rattle.deeds.specs.Deeds.{refused_with, done}
use Rattle.store.specs.Store.{Store}
use Rattle.line.specs.Turns.{State, Turn}
use Rattle.carrying.specs.Carrying.{carry}
use Rattle.machine.specs.Device.{Lent}
use Rattle.promises.specs.AtDevice.{anew}
use Rattle.promises.specs.Demand2.{Moment, comes, on_anew, turn_by, turns_of, device_after, all_carried, fresh_device}
use Rattle.promises.specs.Guarding.{came_of, only_bytes, password_met, name_met}
use Rattle.promises.proofs.Joining.{byte_turn, every_turn}

-- the guard is moved by the commands carried out, and by nothing else
behind_both : (g : Guard) (ms ns : List Message) → guard_behind g (came_of (ms ++ ns)) ≡ guard_behind (guard_behind g (came_of ms)) (came_of ns)
behind_both g [] ns = refl
behind_both g (m ∷ ms) ns = behind_both (judged_by g (parsed_of m.code m.content) m.content).guard ms ns

one_turn : (s : State Store) (lent : Lent) (byte : ℕ) → (turn_by s (comes lent byte)).state.store.guard ≡ guard_behind s.store.guard (came_of (turn_by s (comes lent byte)).carried)
one_turn s =
    byte_turn (λ t. t.state.store.guard ≡ guard_behind s.store.guard (came_of t.carried)) s
    (λ t none same. ap (λ (z : Store). z.guard) same ∙ sym (ap (λ ms. guard_behind s.store.guard (came_of ms)) none))
    (λ next m. refl)

pub the_guard_follows : (arrived : List Moment) (s : State Store) → only_bytes arrived ≡ true
    → (device_after s arrived).store.guard ≡ guard_behind s.store.guard (came_of (all_carried (turns_of s arrived)))
the_guard_follows [] s e = refl
the_guard_follows (on_anew ∷ more) s e = absurd (false≢true e)
the_guard_follows (comes lent byte ∷ more) s e =
    let t : Turn Store = turn_by s (comes lent byte) in
    the_guard_follows more t.state e
    ∙ ap (λ g. guard_behind g (came_of (all_carried (turns_of t.state more)))) (one_turn s lent byte)
    ∙ sym (behind_both s.store.guard t.carried (all_carried (turns_of t.state more)))

-- "Three wrong passwords, in 48, 101 or 102, with no right one between, lock the device until it is switched on anew": from any state that it is switched on
-- in, and whatever bytes come then, it is locked exactly when three well-formed commands with a wrong password came with no right one between
module _ (s : State Store) (arrived : List Moment) (bytes : only_bytes arrived ≡ true) where
  abbrev came : List Came
  came = came_of (all_carried (turns_of (anew s) arrived))

  pub locked_by_three : ThreeWrong (tries_from (calmed s.store.guard) came) → is_locked (device_after (anew s) arrived).store.guard ≡ true
  locked_by_three w = ap is_locked (the_guard_follows arrived (anew s) bytes) ∙ locked_by_three_wrong (calmed s.store.guard) came refl w

  pub locked_by_nothing_else : is_locked (device_after (anew s) arrived).store.guard ≡ true → ThreeWrong (tries_from (calmed s.store.guard) came)
  locked_by_nothing_else h =
      locked_only_by_three_wrong (calmed s.store.guard) came refl (sym (ap is_locked (the_guard_follows arrived (anew s) bytes)) ∙ h)

-- eight passwords and eight names, none longer than its place, at every moment
module _ (P : Guard → Type 0) (calm : (g : Guard) → P g → P (calmed g)) (judge : (g : Guard) → P g → (p : Parsed) (content : List ℕ) → P (judged_by g p content).guard) where
  one-keeps : (s : State Store) → P s.store.guard → (a : Moment) → P (turn_by s a).state.store.guard
  one-keeps s h =
      every_turn (λ t. P t.state.store.guard) s (λ t none same. subst (λ (z : Store). P z.guard) (sym same) h) (calm s.store.guard h)
      (λ next m. judge s.store.guard h (parsed_of m.code m.content) m.content)

  all_keep : (arrived : List Moment) (s : State Store) → P s.store.guard → P (device_after s arrived).store.guard
  all_keep [] s h = h
  all_keep (a ∷ more) s h = all_keep more (turn_by s a).state (one-keeps s h a)

-- a fresh device, whatever came, and one moment more
module _ (sheet : List Line) (arrived : List Moment) where
  abbrev now : State Store
  now = device_after (fresh_device sheet) arrived

  pub always_wide : Wide now.store.guard
  always_wide = all_keep Wide calmed_wide judged_wide arrived (fresh_device sheet) fresh_wide

  pub always_short : Short now.store.guard
  always_short = all_keep Short calmed_short judged_short arrived (fresh_device sheet) fresh_short

  -- a password changes only by a 101 of its operator with the old one given, into the new one
  pub a_password_follows : (op : ℕ) → is_op op ≡ true → (a : Moment) → password_of (turn_by now a).state.store.guard op ≡ password_met now.store.guard op (turn_by now a).carried
  a_password_follows op is =
      every_turn (λ t. password_of t.state.store.guard op ≡ password_met now.store.guard op t.carried) now
      (λ t none same. ap (λ (z : Store). password_of z.guard op) same ∙ sym (ap (password_met now.store.guard op) none)) refl
      (λ next m. a_password_changes_only_by_101 now.store.guard always_wide op is (parsed_of m.code m.content) m.content)

  -- a name only by a 102 of its operator with the password given, into the one in its data
  pub a_name_follows : (op : ℕ) → is_op op ≡ true → (a : Moment) → name_of (turn_by now a).state.store.guard op ≡ name_met now.store.guard op (turn_by now a).carried
  a_name_follows op is =
      every_turn (λ t. name_of t.state.store.guard op ≡ name_met now.store.guard op t.carried) now
      (λ t none same. ap (λ (z : Store). name_of z.guard op) same ∙ sym (ap (name_met now.store.guard op) none)) refl
      (λ next m. a_name_changes_only_by_102 now.store.guard always_wide always_short op is (parsed_of m.code m.content) m.content)

-- and these are done, number 0, exactly where the password passes; else they are 3
by_both : (b : Books) (locked right : Bool)
    → ◌≡◌ {A = ℕ} (cond (passes (cond locked Locked (cond right Right Wrong))) (done b Nothing) (refused_with 3 b)).number (cond (not locked && right) 0 3)
by_both b locked right = ap number (passes_as locked right) ∙ either (not locked && right)
  where
    number : Bool → ℕ
    number let-pass = (cond let-pass (done b Nothing) (refused_with 3 b)).number

    either : (let-pass : Bool) → number let-pass ≡ cond let-pass 0 3
    either true = refl
    either false = refl

pub a_101_is_done_or_3 : (s : Store) (m : Message) (op : ℕ) (old new : Password) → parsed_of m.code m.content ≡ Ok (ChangePassword op old new)
    → (carry s m).number ≡ cond (passes_by s.guard op old) 0 3
a_101_is_done_or_3 s m op old new e = rw e (by_both s.books (is_locked s.guard) (is_right s.guard op old))

pub a_102_is_done_or_3 : (s : Store) (m : Message) (op : ℕ) (password : Password) → parsed_of m.code m.content ≡ Ok (ChangeName op password)
    → (carry s m).number ≡ cond (passes_by s.guard op password) 0 3
a_102_is_done_or_3 s m op password e = rw e (by_both s.books (is_locked s.guard) (is_right s.guard op password))
