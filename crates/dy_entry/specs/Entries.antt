-- The entries of a trace. An entry is named by its index, and an instance by the index of its Start. A session is
-- named by the index of the Start that opened it. Versions of a session's state count from 1.
use Rattle.std.specs.Prelude.{ℕ, List, Option}
use Rattle.dy_term.specs.Terms.{Term}
use Rattle.dy_label.specs.Labels.{Place, Label}
use Rattle.dy_label.specs.declared.usages.Usage.{Usage}
use Rattle.dy_label.specs.declared.usages.Outcome.{Outcome}

pub data Entry : Type 0 where
  -- the bytes of the protocol file
  Setup : (input : List ℕ) → Entry
  -- an instance begins, of a handler, by a principal, in a session, with names and perhaps the index of a message
  Start : (step : ℕ) (handler principal : List ℕ) (session : ℕ) (args : List (List ℕ)) (message : Option ℕ)
      → Entry
  -- a nonce that a handler makes
  Fresh : (instance : ℕ) (label : Label) (usage : Usage) → Entry
  Message : (instance : ℕ) (value : Term) → Entry
  -- a version of a session's state
  State : (instance : ℕ) (principal : List ℕ) (session version : ℕ) (tag : List ℕ) (fields : List Term)
      → Entry
  Event : (instance : ℕ) (principal name : List ℕ) (args : List Term) → Entry
  Cert : (instance : ℕ) (principal usage : List ℕ) (key : Term) → Entry
  End : (instance : ℕ) (outcome : Outcome) → Entry
  Corrupt : (step : ℕ) (corruption : Place) → Entry
  -- a nonce that the attacker makes
  Forge : (step : ℕ) → Entry
  -- a message of the attacker
  Inject : (step : ℕ) (value : Term) → Entry
  -- a step of a plan that could not be resolved
  Skip : (step : ℕ) → Entry
