-- Formulas of graded modal logic: source 001, definition 2.1, with the counting of source 000, definition 1.
-- Document 01 calls a formula a description.
use Rattle.std.specs.Prelude.{ℕ, suc, max}

pub data Formula : Type 0 where
  verum : Formula
  falsum : Formula
  -- the fact (propositional atom) of this name
  fact : ℕ → Formula
  neg : Formula → Formula
  conj : Formula → Formula → Formula
  disj : Formula → Formula → Formula
  -- at least so many links of this relation lead to worlds where the part holds; at most so many
  at_least : ℕ → ℕ → Formula → Formula
  at_most : ℕ → ℕ → Formula → Formula

-- modal depth: how many counting formulas stand within one another (document 01: depth)
unfoldable pub depth : Formula → ℕ
depth verum = 0
depth falsum = 0
depth (fact p) = 0
depth (neg φ) = depth φ
depth (conj φ ψ) = max (depth φ) (depth ψ)
depth (disj φ ψ) = max (depth φ) (depth ψ)
depth (at_least n r φ) = suc (depth φ)
depth (at_most n r φ) = suc (depth φ)
