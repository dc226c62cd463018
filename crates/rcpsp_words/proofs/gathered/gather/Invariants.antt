use Rattle.std.proofs.Common.{◌≡◌, map, drop, string_bytes}
use denote.Shadow.{shadow}
use denote.Text.{Utf8}
use Rattle.rcpsp_words.specs.Part.{parts_after}
use Rattle.rcpsp_words.specs.Gathered.{given_of, given_by}
use Rattle.rcpsp_words.proofs.GivenLaws.{given_after}
use Rattle.rcpsp_words.proofs.gathered.gather.Given as goal

abbrev pub invariant-loop-word : goal.invariant-loop-word
invariant-loop-word l = record {
  said :
      given_after (given_by l.gathered)
      (parts_after l.command l.before (map string_bytes (drop l.word-index l.words)))
      ≡ given_of (parts_after l.command l.fn.command (map string_bytes l.words));
  text : shadow (Utf8 l.before);
}
