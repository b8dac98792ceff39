-- Each sample is computed.
use Rattle.std.proofs.Common.{codes, refl}
use Rattle.occurrence.proofs.SearchLaws.{search_finds_the_end}
use Rattle.samples.specs.Samples.{Samples, pattern, ab_cd, aa_a}

pub shown : Samples
shown = record {
  written_out = refl;
  counts = refl;
  abxcd = search_finds_the_end (pattern ab_cd) (codes "abxcd");
  abcd = search_finds_the_end (pattern ab_cd) (codes "abcd");
  abxxxcd = search_finds_the_end (pattern ab_cd) (codes "abxxxcd");
  ababxcd = search_finds_the_end (pattern ab_cd) (codes "ababxcd");
  ababcd = search_finds_the_end (pattern ab_cd) (codes "ababcd");
  aaa = search_finds_the_end (pattern aa_a) (codes "aaa");
  aa = search_finds_the_end (pattern aa_a) (codes "aa");
  empty_list = refl;
  one_byte = refl;
  start_alone = refl;
  widest_gaps = refl;
  wider_gaps = refl;
  answers = refl;
  shift_numbers = refl;
  back_links = refl;
  masks = refl;
}
