-- The state that a process has by itself: its flags, the rulesets it holds, its domain and its open descriptors.
-- Source: landlock_restrict_self(2); landlock(7), "Inheritance"; the kernel's userspace document on Landlock, "Inheritance" and "Truncating files".
use Rattle.std.specs.Prelude.{ℕ, List, [], Bool, Option, None}
use Rattle.ll_lines.specs.Paths.{Path}
use Rattle.ll_rules.specs.Layers.{RulesOn}
use Rattle.ll_semantics.specs.declared.answer.Descriptor.{Descriptor}

-- a ruleset, or the layer that it became
abbrev pub Layer : Type 0
Layer = RulesOn Path

-- `held` says which ruleset of the world's list a number names, `descriptors` what a number is open on
pub record State : Type 0 where
  pub no_new_privs : Bool
  pub admin : Bool
  pub held : ℕ → Option ℕ
  pub domain : List Layer
  pub descriptors : ℕ → Option Descriptor

-- a process that a trace begins with
unfoldable pub fresh : Bool → Bool → State
fresh no_new_privs admin = record { no_new_privs = no_new_privs; admin = admin; held = λ _. None; domain = []; descriptors = λ _. None }
