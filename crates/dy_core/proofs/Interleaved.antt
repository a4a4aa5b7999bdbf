-- What a Book adds keeps its trace an interleaving.
use Rattle.std.proofs.Common.{◌≡◌, ℕ, true, List, [], ◌∷◌, ◌++◌, sym, subst}
use Rattle.dy_syntax.specs.Files.{File}
use Rattle.dy_entry.specs.Entries.{Entry, End}
use Rattle.dy_traces.specs.Following.{MayFollow}
use Rattle.dy_traces.specs.Interleavings.{Interleaves}
use Rattle.dy_core.specs.declared.answers.Advanced.{Advanced}
use Rattle.dy_core.specs.declared.answers.Advanced.TheVariants as advanced
use Rattle.dy_core.specs.declared.answers.Started.{Started}
use Rattle.dy_core.specs.declared.answers.Started.TheVariants as started
use Rattle.dy_core.specs.Answers.{Adds, IsAdvanced, IsStarted}
use Rattle.dy_core.specs.Asking.{asks_right}
use Rattle.dy_core.specs.StepMeaning.{StartStep, start_of}
use Rattle.dy_core.proofs.StartRules.{may_start}
use Rattle.dy_core.proofs.Stepping.{next_follows}

-- An entry that may follow makes an interleaving longer, as a law says.
abbrev pub Lengthens : Type 0
Lengthens =
    (bytes : List ℕ) (file : File) (T : List Entry) (e : Entry) → Interleaves bytes file T → MayFollow file.decls T e → Interleaves bytes file (T ++ e ∷ [])

module _ (lengthens : Lengthens) (file : File) (T U : List Entry) (bytes : List ℕ) (is_one : Interleaves bytes file T) where
  pub added_keeps : (index : ℕ) (e : Entry) → MayFollow file.decls T e → Adds T U index e → Interleaves bytes file U
  added_keeps index e follows adds = subst (λ (X : List Entry). Interleaves bytes file X) (sym adds.trace) (lengthens bytes file T e is_one follows)

  pub same_keeps : U ≡ T → Interleaves bytes file U
  same_keeps same = subst (λ (X : List Entry). Interleaves bytes file X) (sym same) is_one

  pub advanced_keeps : (instance : ℕ) (answer : Advanced) → IsAdvanced file.decls T instance answer U → Interleaves bytes file U
  advanced_keeps instance (advanced.Put index) is = added_keeps index is.0 (next_follows file.decls T instance is.0 is.1) is.3
  advanced_keeps instance (advanced.Finished index) is = added_keeps index (End instance is.0) is.1 is.2
  advanced_keeps instance advanced.NoInstance is = same_keeps is.1
  advanced_keeps instance (advanced.Ended index) is = same_keeps is.2
  advanced_keeps instance advanced.Memory is = same_keeps is

  pub started_keeps : (s : StartStep) → asks_right file.decls s ≡ true → (answer : Started) → IsStarted T s answer U → Interleaves bytes file U
  started_keeps s right (started.Ok index) is = added_keeps index (start_of s T) (may_start file.decls s right T is.0 is.1 is.2 is.3) is.4
  started_keeps s right (started.Already index) is = same_keeps is.1
  started_keeps s right started.NoSession is = same_keeps is.2
  started_keeps s right (started.Busy instance) is = same_keeps is.2
  started_keeps s right started.NoMessage is = same_keeps is.4
  started_keeps s right started.Memory is = same_keeps is
