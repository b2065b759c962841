-- The text that the program prints for the text that it reads (01, "Lent lists, map and text").
use Rattle.std.specs.Prelude.{List, ℕ, ltb, ℤ, length, take, Result, Ok, Err}
use Rattle.refusal.specs.declared.Refusal.{Refusal}
use Rattle.refusal.specs.declared.Refusal.TheVariants.{BufferTooSmall}
use Rattle.refusal.specs.Rules.{Verdict, rule, tried, value_or}
use Rattle.numbers.specs.Modulus.{modulus_rules}
use Rattle.solver.specs.Solve.{solution, marks_of}
use Rattle.text.specs.declared.Problem.{Problem}
use Rattle.text.specs.Form.{problem_of}
use Rattle.writer.specs.Output.{output_text, refusal_line, text_or}

-- the reader "does not judge p or n; the program leaves them to the solver": the rules on p and n
unfoldable pub judged : ℕ → ℕ → Verdict
unfolding modulus_rules
judged p n = tried (modulus_rules p n)

-- "Output: a line of p, n, k and root count, then a line a class of residue, level, number of members and mark": the solver's classes
unfoldable pub solved_text : List ℤ → ℕ → ℕ → List ℕ
unfolding judged
solved_text f p n = text_or (judged p n) (output_text p n (solution f p n) (marks_of f p n))

-- what is printed for what the reader gives: the polynomial has the first c coefficients of the row
abbrev pub printed_for : Result Problem Refusal → List ℕ
printed_for (Ok problem) = solved_text (take problem.count problem.coefficients) problem.p problem.n
printed_for (Err r) = refusal_line r

-- "The program reads the first block on standard input and prints the second"
unfoldable pub printed_text : List ℕ → List ℕ
unfolding solved_text
printed_text text = printed_for (problem_of text)

-- a buffer with fewer bytes than a text is refused as the writer's, by rule 12; "the place is that number"
abbrev pub buffer_verdict : List ℕ → ℕ → Verdict
buffer_verdict text bytes = rule (ltb bytes (length text)) (BufferTooSmall (length text))

-- how many bytes are written, all of the text, or the refusal
abbrev pub written_in : List ℕ → ℕ → Result ℕ Refusal
written_in text bytes = value_or (buffer_verdict text bytes) (length text)
