-- What calls answer by numbers.
use Rattle.std.specs.Prelude.{ℕ, List, Option, Some, codes}
use Rattle.onfi_planner.specs.declared.fault.PlanFault.{PlanFault}
use Rattle.onfi_planner.specs.declared.fault.PlanFault.TheVariants.{Over as SearchOver, Memory as SearchMemory}
use Rattle.onfi_problem.specs.declared.fault.ProblemFault.{ProblemFault}
use Rattle.onfi_problem.specs.declared.fault.ProblemFault.TheVariants as problem
use Rattle.onfi_timing.specs.declared.spans.SpanFault.{SpanFault}
use Rattle.onfi_timing.specs.declared.spans.SpanFault.TheVariants.{Zero as ZeroLength, TooLong}
use Rattle.onfi_steady.specs.declared.fault.AcceptFault.{AcceptFault}
use Rattle.onfi_steady.specs.declared.fault.AcceptFault.TheVariants as accept
use Rattle.onfi_steady.specs.declared.fault.RanFault.{RanFault}
use Rattle.onfi_steady.specs.declared.fault.RanFault.TheVariants as ran
use Rattle.onfi_steady.specs.declared.fault.ReadyFault.{ReadyFault}
use Rattle.onfi_steady.specs.declared.fault.ReadyFault.TheVariants as ready
use Rattle.onfi_calls.specs.declared.status.Status.{Status}
use Rattle.onfi_calls.specs.declared.status.Status.TheVariants.{Done, NoRoom, Memory, BadLimit, Over, BadBy, BadWords, ZeroSpan, LongSpan, BadPlaneBits, BadKind, BadMembers, TooMany, BadLun, Clock, BadPlace, BadGeometry, BadOrder, NoLengths, BadSectors, BadSchedule, NothingDue, NotDue, TooSoon, NotWaiting, BadDispatcher, BadHeader, BadToken, TooManyTokens, OtherOption, Illegal, Short, Trailing, Width, BoundLow, YieldNoFit, YieldLoop, NotEnd, EndsBefore, PageShort, NoCopy, WideBus, NoStatusEnhanced, NoColumnEnhanced, NoMultiLun, LunCount, PlaneBits, Zero, RowTooWide, ColumnTooWide, TooLarge, SheetMissing, SheetRepeated, SheetUnknown, SheetNotANumber, SheetZeroCycle, SheetTooLong, StrobeMissing, StrobeRepeated, StrobeUnknown, StrobeNotANumber, UnknownNode, OtherLeft, Sooner, TooManyNodes}

abbrev pub number_of : Status → ℕ
number_of Done = 0
number_of NoRoom = 3
number_of Memory = 4
number_of BadLimit = 5
number_of Over = 6
number_of BadBy = 7
number_of BadWords = 9
number_of ZeroSpan = 10
number_of LongSpan = 11
number_of BadPlaneBits = 12
number_of BadKind = 13
number_of BadMembers = 14
number_of TooMany = 20
number_of BadLun = 21
number_of Clock = 22
number_of BadPlace = 23
number_of BadGeometry = 24
number_of BadOrder = 27
number_of NoLengths = 28
number_of BadSectors = 29
number_of BadSchedule = 30
number_of NothingDue = 31
number_of NotDue = 33
number_of TooSoon = 34
number_of NotWaiting = 35
number_of BadDispatcher = 36
number_of BadHeader = 40
number_of BadToken = 41
number_of TooManyTokens = 42
number_of OtherOption = 43
number_of Illegal = 50
number_of Short = 51
number_of Trailing = 52
number_of Width = 53
number_of BoundLow = 54
number_of YieldNoFit = 55
number_of YieldLoop = 56
number_of NotEnd = 57
number_of EndsBefore = 58
number_of PageShort = 60
number_of NoCopy = 61
number_of WideBus = 70
number_of NoStatusEnhanced = 71
number_of NoColumnEnhanced = 72
number_of NoMultiLun = 73
number_of LunCount = 74
number_of PlaneBits = 75
number_of Zero = 76
number_of RowTooWide = 77
number_of ColumnTooWide = 78
number_of TooLarge = 79
number_of SheetMissing = 80
number_of SheetRepeated = 81
number_of SheetUnknown = 82
number_of SheetNotANumber = 83
number_of SheetZeroCycle = 84
number_of SheetTooLong = 85
number_of StrobeMissing = 86
number_of StrobeRepeated = 87
number_of StrobeUnknown = 88
number_of StrobeNotANumber = 89
number_of UnknownNode = 90
number_of OtherLeft = 91
number_of Sooner = 92
number_of TooManyNodes = 93

-- what each says
abbrev pub text_of : Status → List ℕ
text_of Done = codes "all went well"
text_of NoRoom = codes "a text is longer than the room for it"
text_of Memory = codes "memory was refused"
text_of BadLimit = codes "a search opens 1 to 1,048,576 nodes"
text_of Over = codes "the limit of nodes was met and the search isn't over"
text_of BadBy = codes "a way to plan that is none"
text_of BadWords = codes "words that ask for nothing that is answered"
text_of ZeroSpan = codes "a phase without length"
text_of LongSpan = codes "a length or a wait of 2^50 ns or more"
text_of BadPlaneBits = codes "more than 2 bits name the plane"
text_of BadKind = codes "a kind that is none"
text_of BadMembers = codes "a running group of more than 4 members"
text_of TooMany = codes "more wants than may be, or not 1 to 8 LUNs"
text_of BadLun = codes "a want or running group that the LUNs can't have, or ids that are equal or fall"
text_of Clock = codes "times that reach 2^62 ns"
text_of BadPlace = codes "a LUN, block or page that the device doesn't have"
text_of BadGeometry = codes "a geometry that no parameter page gives"
text_of BadOrder = codes "a number of a request that doesn't rise, or waits"
text_of NoLengths = codes "sectors without lengths"
text_of BadSectors = codes "sectors that a page doesn't have"
text_of BadSchedule = codes "a count of the schedule out of its range, or a start of 2^63 ns or more"
text_of NothingDue = codes "no phase is due"
text_of NotDue = codes "a phase that isn't due"
text_of TooSoon = codes "a phase that started before it may"
text_of NotWaiting = codes "no request of that number waits"
text_of BadDispatcher = codes "the memory of a dispatcher was written by something else"
text_of BadHeader = codes "the header line is none of a certificate"
text_of BadToken = codes "no token of a certificate"
text_of TooManyTokens = codes "more than 100,000,000 tokens"
text_of OtherOption = codes "the header names another option than the channel has"
text_of Illegal = codes "the schedule isn't legal"
text_of Short = codes "the tokens end too soon"
text_of Trailing = codes "a token behind the tree"
text_of Width = codes "a branch of another width than there are moves"
text_of BoundLow = codes "a bound that doesn't reach the finish"
text_of YieldNoFit = codes "a yield that doesn't fit"
text_of YieldLoop = codes "a yield that goes round"
text_of NotEnd = codes "no end"
text_of EndsBefore = codes "the schedule ends before the time that is told"
text_of PageShort = codes "fewer than 256 bytes of a parameter page"
text_of NoCopy = codes "no copy of the parameter page is sound"
text_of WideBus = codes "the data bus has 16 bits"
text_of NoStatusEnhanced = codes "the device has no Read Status Enhanced"
text_of NoColumnEnhanced = codes "the device has no Change Read Column Enhanced"
text_of NoMultiLun = codes "several LUNs, and not at the same time"
text_of LunCount = codes "no LUN, or more than 8"
text_of PlaneBits = codes "more than 2 plane address bits"
text_of Zero = codes "no page, no block or no data byte"
text_of RowTooWide = codes "a row address doesn't fit the row address cycles"
text_of ColumnTooWide = codes "a column address doesn't fit the column address cycles"
text_of TooLarge = codes "more than 4096 pages a block, 65536 blocks a LUN or 65535 bytes a page"
text_of SheetMissing = codes "the sheet gives no value for a parameter"
text_of SheetRepeated = codes "the sheet gives a parameter twice"
text_of SheetUnknown = codes "a row of the sheet is no parameter with its value"
text_of SheetNotANumber = codes "the value of a row of the sheet is no number"
text_of SheetZeroCycle = codes "a cycle without length"
text_of SheetTooLong = codes "a value of 2^32 ns or more"
text_of StrobeMissing = codes "the strobes give no value for a parameter"
text_of StrobeRepeated = codes "the strobes give a parameter twice"
text_of StrobeUnknown = codes "a row of the strobes is no parameter with its value"
text_of StrobeNotANumber = codes "the value of a row of the strobes is no number"
text_of UnknownNode = codes "a node that hasn't ended"
text_of OtherLeft = codes "a node at which something else is left"
text_of Sooner = codes "a node that goes on later"
text_of TooManyNodes = codes "more than 1,048,576 open nodes"

abbrev pub spans_status : SpanFault → Status
spans_status ZeroLength = ZeroSpan
spans_status TooLong = LongSpan

abbrev pub problem_status : ProblemFault → Status
problem_status problem.TooMany = TooMany
problem_status problem.BadLun = BadLun
problem_status problem.NoLengths = NoLengths
problem_status problem.Clock = Clock
problem_status problem.Memory = Memory

-- .. of what is given with sectors that have no length
abbrev pub lacking_status : Option ProblemFault → Status
lacking_status (Some problem.TooMany) = TooMany
lacking_status (Some problem.BadLun) = BadLun
lacking_status _ = NoLengths

abbrev pub plan_status : PlanFault → Status
plan_status (SearchOver opened) = Over
plan_status SearchMemory = Memory

-- .. of a request that a dispatcher doesn't take, of a phase that didn't run, of a LUN that isn't ready early
abbrev pub accept_status : AcceptFault → Status
accept_status accept.BadLun = BadLun
accept_status accept.Full = TooMany
accept_status accept.BadOrder = BadOrder
accept_status accept.Waits = BadOrder

abbrev pub ran_status : RanFault → Status
ran_status ran.NothingDue = NothingDue
ran_status ran.TooSoon = TooSoon
ran_status ran.TooLate = Clock

abbrev pub ready_status : ReadyFault → Status
ready_status ready.BadLun = BadLun
ready_status ready.NotInArray = NotDue
