-- What holds of the n and K that a preamble gives: they are within the limits.
use Rattle.std.proofs.Common.{◌≡◌, ℕ, ◌≤◌, Bool, true, false, List, [], ◌∷◌, Ok, Option, None, Some, subst}
use Rattle.std.specs.Prelude.{IfSome, if◌then◌else◌}
use Rattle.rc_instance.specs.declared.limits.TheConstants.{MAX_ACTIVITIES, MAX_RESOURCES}
use Rattle.rc_edge.specs.declared.text_number.Number.{Number}
use Rattle.rc_edge.specs.Grammar.{◌>>=◌}
use Rattle.rc_edge.specs.Entries as entries
use Rattle.rc_edge.proofs.EntryLaws.{guard_ok, activity_count_is, resource_count_is}
use Rattle.rc_edge.proofs.GrammarLaws.{bind_ok, ok_is}
use Rattle.psplib_read.specs.declared.preamble.Head.{Head}
use Rattle.psplib_read.specs.declared.preamble.Topic.{Topic}
use Rattle.psplib_read.specs.declared.preamble.Topic.TheVariants.{Projects, Jobs, Renewable, Nonrenewable, DoublyConstrained}
use Rattle.psplib_read.specs.declared.preamble.Preamble.{Preamble}
use Rattle.psplib_read.specs.Lines.{Line, first_at}
use Rattle.psplib_read.specs.Left.{Left}
use Rattle.psplib_read.specs.Preamble.{value_of, topic_of, was_read, with_value, with_topic, with_line_on, with_line, nothing_read, head_of, with_lines, ends_preamble, preamble_in, head_due}

-- n and K are within the limits, as far as they are given
record IsWithin (preamble : Preamble) : Type 0 where
  jobs : IfSome preamble.jobs (λ n. (1 ≤ n) × (n ≤ MAX_ACTIVITIES))
  renewable : IfSome preamble.renewable (λ k. k ≤ MAX_RESOURCES)

value_keeps : (topic : Topic) (number : Number) (preamble after : Preamble) → IsWithin preamble
    → with_value topic number preamble ≡ Ok after → IsWithin after
unfolding with_value
value_keeps Projects number preamble after within read =
    let one = guard_ok _ _ _ _ after read in
    subst IsWithin (ok_is (record preamble { projects = true }) after one.1)
    (record { jobs = within.jobs; renewable = within.renewable })
value_keeps Jobs number preamble after within read =
    let count = bind_ok (entries.activity_count number) _ after read in
    subst IsWithin (ok_is (record preamble { jobs = Some count.0 }) after count.2)
    (record { jobs = activity_count_is number count.0 count.1; renewable = within.renewable })
value_keeps Renewable number preamble after within read =
    let count = bind_ok (entries.resource_count number) _ after read in
    subst IsWithin (ok_is (record preamble { renewable = Some count.0 }) after count.2)
    (record { jobs = within.jobs; renewable = resource_count_is number count.0 count.1 })
value_keeps Nonrenewable number preamble after within read =
    let none = guard_ok _ _ _ _ after read in
    subst IsWithin (ok_is (record preamble { nonrenewable = true }) after none.1)
    (record { jobs = within.jobs; renewable = within.renewable })
value_keeps DoublyConstrained number preamble after within read =
    let none = guard_ok _ _ _ _ after read in
    subst IsWithin (ok_is (record preamble { doubly_constrained = true }) after none.1)
    (record { jobs = within.jobs; renewable = within.renewable })

topic_keeps : (topic : Topic) (line : Line) (preamble after : Preamble) → IsWithin preamble
    → with_topic topic line preamble ≡ Ok after → IsWithin after
unfolding with_topic
topic_keeps topic line preamble after within read = by_test (was_read topic preamble) read
  where
    by_test : (known : Bool)
        → (if known then Ok preamble else (value_of line >>= λ number. with_value topic number
        preamble)) ≡ Ok after → IsWithin after
    by_test true read = subst IsWithin (ok_is preamble after read) within
    by_test false read =
        let number = bind_ok (value_of line) (λ number. with_value topic number preamble) after
        read in
        value_keeps topic number.0 preamble after within number.2

line_keeps : (line : Line) (preamble after : Preamble) → IsWithin preamble
    → with_line line preamble ≡ Ok after → IsWithin after
unfolding with_line
line_keeps line preamble after within read = by_topic (topic_of line) read
  where
    by_topic : (topic : Option Topic) → with_line_on topic line preamble ≡ Ok after → IsWithin after
    by_topic None read = subst IsWithin (ok_is preamble after read) within
    by_topic (Some topic) read = topic_keeps topic line preamble after within read

-- n and K are within the limits
pub record IsHead (head : Head) : Type 0 where
  pub some : 1 ≤ head.jobs
  pub few : head.jobs ≤ MAX_ACTIVITIES
  pub resources : head.resources ≤ MAX_RESOURCES

head_within : (jobs renewable : Option ℕ) (at : ℕ) (head : Head)
    → IfSome jobs (λ n. (1 ≤ n) × (n ≤ MAX_ACTIVITIES)) → IfSome renewable (λ k. k ≤ MAX_RESOURCES)
    → head_of jobs renewable at ≡ Ok head → IsHead head
head_within None renewable at head n k read = absurd cc
head_within (Some jobs) None at head n k read = absurd cc
head_within (Some jobs) (Some resources) at head n k read =
    subst IsHead (ok_is (record { jobs = jobs; resources = resources }) head read)
    (record { some = n.0; few = n.1; resources = k })

preamble_gives : (size : ℕ) (preamble : Preamble) (lines : List Line) (found : Head × Left)
    → IsWithin preamble → preamble_in size preamble lines ≡ Ok found → IsHead found.0
unfolding preamble_in
preamble_gives size preamble [] found within read = absurd cc
preamble_gives size preamble (line ∷ lines) found within read =
    by_test (ends_preamble line) (λ next is. preamble_gives size next lines found is) read
  where
    by_test : (ends : Bool) → ((next : Preamble) → IsWithin next → preamble_in size next lines
        ≡ Ok found → IsHead found.0)
        → (if ends then head_of preamble.jobs preamble.renewable (first_at line) >>= with_lines size
        lines
        else with_line line preamble >>= λ next. preamble_in size next lines) ≡ Ok found
        → IsHead found.0
    by_test true others read =
        let head = bind_ok (head_of preamble.jobs preamble.renewable (first_at line))
        (with_lines size lines) found read in
        subst (λ (x : Head × Left). IsHead x.0)
        (ok_is (head.0, record { size = size; tokens = []; lines = lines }) found head.2)
        (head_within preamble.jobs preamble.renewable (first_at line) head.0 within.jobs
        within.renewable head.1)
    by_test false others read =
        let next = bind_ok (with_line line preamble) (λ next. preamble_in size next lines) found
        read in
        others next.0 (line_keeps line preamble next.0 within next.1) next.2

pub head_is : (left : Left) (found : Head × Left) → head_due left ≡ Ok found → IsHead found.0
head_is left found read = preamble_gives left.size nothing_read left.lines found
    (record { jobs = tt; renewable = tt }) read
