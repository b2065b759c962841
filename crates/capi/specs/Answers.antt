-- The fields that C gets for each case of an answer: 01's refusal number and place, 0 where nothing is refused, and the operation's
-- values, 0 where it is refused.
use Rattle.std.specs.Prelude.{Bool, true, false, ℕ, Result, Ok, Err, Option, Some, None}
use Rattle.refusal.specs.declared.Refusal.{Refusal}
use Rattle.refusal.specs.Number.{number_of, place_of}
use Rattle.solver.specs.declared.Found.{Found}
use Rattle.solver.specs.declared.Listed.{Listed}
use Rattle.text.specs.declared.Problem.{Problem}
use Rattle.capi.specs.declared.answers.DoneAnswer.{DoneAnswer}
use Rattle.capi.specs.declared.answers.ListAnswer.{ListAnswer}
use Rattle.capi.specs.declared.solve.SolveAnswer.{SolveAnswer}
use Rattle.capi.specs.declared.is_root.TestAnswer.{TestAnswer}
use Rattle.capi.specs.declared.next_root.NextAnswer.{NextAnswer}
use Rattle.capi.specs.declared.count_map.CountAnswer.{CountAnswer}
use Rattle.capi.specs.declared.read_problem.ReadAnswer.{ReadAnswer}
use Rattle.capi.specs.declared.write_classes.WriteAnswer.{WriteAnswer}

-- the call is done, or refused: every record of the points has its answer (02, 2.5), the row of counts is written (02, 2.1), a system is
-- opened, or a polynomial added or withdrawn (02, 2.6), or the map is filled
abbrev pub done_answer : Result Unit Refusal → DoneAnswer
done_answer (Ok done) = record { number = 0; place = 0 }
done_answer (Err r) = record { number = number_of r; place = place_of r }

-- "whatever fills lists … returns k and the root count" (02, 2.6), where a precision is raised and where a system's list is fetched
abbrev pub list_answer : Result Listed Refusal → ListAnswer
list_answer (Ok listed) = record { number = 0; place = 0; classes = listed.classes; roots = listed.roots }
list_answer (Err r) = record { number = number_of r; place = place_of r; classes = 0; roots = 0 }

-- "It returns k and the root count", and 02, 2.8: "The solver shall report the number of live classes"
abbrev pub solve_answer : Result Found Refusal → SolveAnswer
solve_answer (Ok found) = record { number = 0; place = 0; classes = found.classes; roots = found.roots; live = found.live }
solve_answer (Err r) = record { number = number_of r; place = place_of r; classes = 0; roots = 0; live = 0 }

-- "says yes exactly if pⁿ divides f there": 1 for yes, 0 for no
abbrev pub test_answer : Result Bool Refusal → TestAnswer
test_answer (Ok true) = record { number = 0; place = 0; root = 1 }
test_answer (Ok false) = record { number = 0; place = 0; root = 0 }
test_answer (Err r) = record { number = number_of r; place = place_of r; root = 0 }

-- "Next returns the least member at or after the point, or none": found is 1, or 0 for none
abbrev pub next_answer : Result (Option ℕ) Refusal → NextAnswer
next_answer (Ok (Some root)) = record { number = 0; place = 0; found = 1; root = root }
next_answer (Ok None) = record { number = 0; place = 0; found = 0; root = 0 }
next_answer (Err r) = record { number = number_of r; place = place_of r; found = 0; root = 0 }

-- "counts the ones of its first pⁿ bits"
abbrev pub count_answer : Result ℕ Refusal → CountAnswer
count_answer (Ok ones) = record { number = 0; place = 0; ones = ones }
count_answer (Err r) = record { number = number_of r; place = place_of r; ones = 0 }

-- "The reader gives p, n, c and a row of 65 coefficients", of which the row is lent
abbrev pub read_answer : Result Problem Refusal → ReadAnswer
read_answer (Ok problem) = record { number = 0; place = 0; p = problem.p; n = problem.n; count = problem.count }
read_answer (Err r) = record { number = number_of r; place = place_of r; p = 0; n = 0; count = 0 }

-- the number of bytes written, or the refusal
abbrev pub write_answer : Result ℕ Refusal → WriteAnswer
write_answer (Ok bytes) = record { number = 0; place = 0; bytes = bytes }
write_answer (Err r) = record { number = number_of r; place = place_of r; bytes = 0 }
