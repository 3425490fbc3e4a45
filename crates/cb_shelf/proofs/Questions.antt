-- Each text that asks is a question, whatever tables there are.
use Rattle.std.proofs.Common.{◌≡◌, true, refl}
use Rattle.sqlite_resolve.specs.Compile.{first}
use Rattle.sqlite_tied.specs.Compute.{everything}
use Rattle.cb_shelf.specs.Asking.{IsQuestion}
use Rattle.cb_shelf.proofs.Asking.{asks, is_question}
use Rattle.cb_shelf.specs.declared.reading.Generation.{Generation}
use Rattle.cb_shelf.specs.declared.reading.Generation.TheVariants.{Older, Newer}
use Rattle.cb_shelf.specs.Reading.{mark_text, pages_text, parts_text, version_text, part_text}
use Rattle.cb_shelf.specs.Living.{below_text}
use Rattle.cb_shelf.specs.Opening.{page_count, mark_count}

older_mark : asks (first (mark_text Older)) ≡ true
unfolding first everything
older_mark = refl

newer_mark : asks (first (mark_text Newer)) ≡ true
unfolding first everything
newer_mark = refl

older_pages : asks (first (pages_text Older)) ≡ true
unfolding first everything
older_pages = refl

newer_pages : asks (first (pages_text Newer)) ≡ true
unfolding first everything
newer_pages = refl

newer_parts : asks (first (parts_text Newer)) ≡ true
unfolding first everything
newer_parts = refl

older_version : asks (first (version_text Older)) ≡ true
unfolding first everything
older_version = refl

newer_version : asks (first (version_text Newer)) ≡ true
unfolding first everything
newer_version = refl

older_part : asks (first (part_text Older)) ≡ true
unfolding first everything
older_part = refl

newer_part : asks (first (part_text Newer)) ≡ true
unfolding first everything
newer_part = refl

older_marks : asks (first mark_count) ≡ true
unfolding first everything
older_marks = refl

pub mark_asks : (tables : Generation) → IsQuestion (mark_text tables)
mark_asks Older = is_question (mark_text Older) older_mark
mark_asks Newer = is_question (mark_text Newer) newer_mark

pub pages_asks : (tables : Generation) → IsQuestion (pages_text tables)
pages_asks Older = is_question (pages_text Older) older_pages
pages_asks Newer = is_question (pages_text Newer) newer_pages

pub parts_asks : (tables : Generation) → IsQuestion (parts_text tables)
parts_asks Older = is_question (parts_text Older) older_pages
parts_asks Newer = is_question (parts_text Newer) newer_parts

pub version_asks : (tables : Generation) → IsQuestion (version_text tables)
version_asks Older = is_question (version_text Older) older_version
version_asks Newer = is_question (version_text Newer) newer_version

pub part_asks : (tables : Generation) → IsQuestion (part_text tables)
part_asks Older = is_question (part_text Older) older_part
part_asks Newer = is_question (part_text Newer) newer_part

pub page_count_asks : IsQuestion page_count
page_count_asks = is_question page_count older_pages

pub mark_count_asks : IsQuestion mark_count
mark_count_asks = is_question mark_count older_marks

below_is : asks (first below_text) ≡ true
unfolding first everything
below_is = refl

pub below_asks : IsQuestion below_text
below_asks = is_question below_text below_is
